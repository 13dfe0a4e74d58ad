pub mod Groups
pub mod Marks
pub use Rattle.hm_rules.specs.Service
