mod Back
mod Fields
mod Front
mod Items
mod Loop
mod Order
mod Wide
