pub mod SectionLaws
pub mod Turns
pub mod TitleLaws
pub mod SectionTheorems
pub mod CallLaws
pub mod TitleTheorems
pub mod NumberLaws
pub mod Examples
