-- What rules of the cycle infer, check, infer_app take and give besides what they share with the others.
pub mod Rules
