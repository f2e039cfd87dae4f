pub mod StepFacts
pub mod GateFacts
pub mod Spots
pub mod CollectorFacts
pub mod PartFacts
