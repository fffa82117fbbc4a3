-- Laws of the numbers, and of the conditions that calls share.
pub mod RefusalLaws
pub mod ConditionLaws
pub mod LadderLaws
