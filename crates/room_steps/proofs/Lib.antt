mod Ends
mod Ready
mod Words
