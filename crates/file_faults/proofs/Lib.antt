mod Refusing
mod Walking
mod LintedRooms
mod LintedScripts
mod LintedEvents
mod Floats
mod Headed
