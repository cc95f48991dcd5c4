pub mod ProgramLaws
pub mod Examples
