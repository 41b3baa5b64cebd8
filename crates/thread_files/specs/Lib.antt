-- The promise: what threads leave on the image at a path, and what refuses them.
pub mod Files
