mod Places
mod Blocks
mod Lists
