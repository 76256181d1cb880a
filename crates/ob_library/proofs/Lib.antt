mod Views
mod Constants
mod Grammar
