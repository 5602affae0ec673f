pub mod Words
pub mod Routes
pub mod Courses
pub mod Heads
pub mod Packets
pub mod Deliveries
