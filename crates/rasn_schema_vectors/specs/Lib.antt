pub mod LineShapes
pub mod SchemaAnswers
