pub mod PlainRequests
