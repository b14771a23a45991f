mod OwnInputs
mod WorkedHeads
