pub mod SixCodes
