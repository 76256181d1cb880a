-- What the program does: a reader begins with Top, which has the one clause, and with the page of a command (Run, Exec, Check, Migrate).
pub mod Status
pub mod Answers
pub mod Parts
pub mod Run
pub mod Exec
pub mod Check
pub mod Migrate
pub mod Top
pub mod Causes
pub mod Laws
pub mod Delivery
