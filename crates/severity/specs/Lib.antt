pub mod Severity
