mod Words
mod Spelling
mod Numbers
mod Requests
