mod Answering
mod Printing
mod Reading
