mod Agreeing
mod Moments
mod Noting
mod Reading
mod Renaming
mod Worked
