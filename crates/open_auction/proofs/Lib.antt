mod Prices
mod Ahead
mod Optimal
mod Members
mod Walking
mod Pairing
mod Takers
mod Printing
