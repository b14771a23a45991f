mod Behind
mod Floats
mod Numbers
mod Objects
mod Within
mod WorkedReductions
