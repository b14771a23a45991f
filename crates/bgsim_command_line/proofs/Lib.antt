mod FileWords
mod Naming
mod RunWords
mod Subcommands
mod Taken
mod Worked
