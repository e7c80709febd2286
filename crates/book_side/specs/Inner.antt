-- How a linked book is kept. A reader need not believe any of it: its calls speak only of the content of a book.
pub mod Content
pub mod Flat
pub mod Linked
pub mod Steps
