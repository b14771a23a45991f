mod Finding
mod Subcommands
