-- What the words of the command line ask for: a reader who wants to know what is accepted reads Numbers, Options, Lines and Jobs,
-- in this order.
pub mod Numbers
pub mod Options
pub mod Lines
pub mod Jobs
pub mod Reading
