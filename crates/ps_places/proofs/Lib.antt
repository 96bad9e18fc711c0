pub mod FalseParts
