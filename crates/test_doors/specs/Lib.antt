pub mod GuardRules
