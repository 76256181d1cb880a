pub mod FunctionView
