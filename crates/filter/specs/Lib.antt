-- What the program `notes` writes.
pub mod Program
