pub mod ActionOrder
pub mod Actions
pub mod Coverage
pub mod Custom
pub mod Refusals
