pub mod OperationView
