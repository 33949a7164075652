mod Messages
mod Files
