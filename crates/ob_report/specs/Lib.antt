-- The lines that the program prints: those of its errors, diagnostics of a source, reports of stray accesses, verdicts of audits, and
-- the runs of samples.
pub mod Lines
pub mod Diagnostics
pub mod Reports
pub mod Verdicts
pub mod Samples
