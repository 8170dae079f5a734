pub mod TextOrders
