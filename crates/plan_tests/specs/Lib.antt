pub mod FilesInMemory
