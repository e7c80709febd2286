mod Streams
mod Turns
