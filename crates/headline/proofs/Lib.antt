mod CutOff
mod Given
mod Lives
mod Durable
