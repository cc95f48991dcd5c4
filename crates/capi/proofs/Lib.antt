pub mod Walks
mod Mapped
