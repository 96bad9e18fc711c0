mod ForwardBars
mod RowCounts
