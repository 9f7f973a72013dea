-- What is seen of a device in memory: nobody has to believe it.
pub mod Memory
pub mod MemoryLaws
