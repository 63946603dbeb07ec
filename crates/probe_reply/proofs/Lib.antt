pub mod Replies
mod Numbers
mod Results
