pub mod Xdr
pub mod SampledHeader
pub mod FlowRecords
pub mod Samples
pub mod Datagram
