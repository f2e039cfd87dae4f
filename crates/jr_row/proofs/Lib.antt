pub mod SlotSearch
pub mod LookAndExchange
