pub mod SecretFiles
