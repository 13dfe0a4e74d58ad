pub use Rattle.hm_rules.specs.Replica
pub use Rattle.hm_rules.specs.Viewstamped
pub use Rattle.hm_replica.specs.Given
pub use Rattle.hm_replica.specs.Steps
pub mod Standing
pub mod Parts
