pub mod Attributes
pub mod Places
pub mod Shapes
pub mod Svg
pub mod Xml
