pub mod PythonPieces
pub mod PythonDirectives
pub mod Format
pub mod PythonScanning
