pub mod ReloadsOut
