-- Tokens and their texts: each token has one text, and each text is that of one token at most.
pub mod OneToken
