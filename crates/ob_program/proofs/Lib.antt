mod Running
mod Checking
mod Exact
mod Answering
