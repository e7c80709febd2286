mod Entries
mod Memory
mod Replayed
mod StreamSteps
mod Written
