-- What contracts over these modules cite: the definitions of each crate, file by file, and the types of the modules
-- with their cases, where a definition has to name them.

pub use Rattle.wirebase.specs.Answers
pub use Rattle.wirebase.specs.ByteWriter
pub use Rattle.wirebase.specs.Bytes
pub use Rattle.wirebase.specs.Capabilities
pub use Rattle.wirebase.specs.Checksum
pub use Rattle.wirebase.specs.Display
pub use Rattle.wirebase.specs.Duration
pub use Rattle.wirebase.specs.Ethernet
pub use Rattle.wirebase.specs.Format
pub use Rattle.wirebase.specs.Hardware
pub use Rattle.wirebase.specs.HardwareAddress
pub use Rattle.wirebase.specs.Icmp
pub use Rattle.wirebase.specs.Ip
pub use Rattle.wirebase.specs.Ipv4
pub use Rattle.wirebase.specs.Ipv6
pub use Rattle.wirebase.specs.Ipv6Address
pub use Rattle.wirebase.specs.LastOf
pub use Rattle.wirebase.specs.Numbered
pub use Rattle.opt_wire.specs.Ipv6ExtHeader
pub use Rattle.opt_wire.specs.Ipv6Hbh
pub use Rattle.opt_wire.specs.Ipv6Option
pub use Rattle.opt_wire.specs.Ipv6OptionAnswers
pub use Rattle.opt_wire.specs.Ipv6OptionDisplay
pub use Rattle.opt_wire.specs.Ipv6OptionModel
pub use Rattle.opt_wire.specs.Ipv6OptionTables
pub use Rattle.opt_wire.specs.NdiscOption
pub use Rattle.opt_wire.specs.NdiscOptionRepr
pub use Rattle.opt_wire.specs.NdiscOptionTables
pub use Rattle.icmp4_wire.specs.Icmpv4
pub use Rattle.icmp4_wire.specs.Icmpv4Display
pub use Rattle.icmp4_wire.specs.Icmpv4Tables
pub use Rattle.icmp4_wire.specs.Igmp
pub use Rattle.icmp4_wire.specs.IgmpCode
pub use Rattle.icmp4_wire.specs.IgmpDisplay
pub use Rattle.icmp6_wire.specs.Icmpv6
pub use Rattle.icmp6_wire.specs.Icmpv6Packet
pub use Rattle.icmp6_wire.specs.Icmpv6Tables
pub use Rattle.icmp6_wire.specs.Mld
pub use Rattle.icmp6_wire.specs.MldIterators
pub use Rattle.icmp6_wire.specs.MldPacket
pub use Rattle.icmp6_wire.specs.MldRecord
pub use Rattle.icmp6_wire.specs.MldTables
pub use Rattle.icmp6_wire.specs.Ndisc
pub use Rattle.icmp6_wire.specs.NdiscBlocks
pub use Rattle.icmp6_wire.specs.NdiscOptionsSeen
pub use Rattle.icmp6_wire.specs.NdiscPacket
pub use Rattle.icmp6_wire.specs.NdiscTables
pub use Rattle.dhcp_wire.specs.Dhcpv4
pub use Rattle.dhcp_wire.specs.private.Dhcpv4Writing
pub use Rattle.dhcp_wire.specs.Dhcpv4Format
pub use Rattle.dhcp_wire.specs.Dhcpv4Options
pub use Rattle.dhcp_wire.specs.Dhcpv4Packet
pub use Rattle.dhcp_wire.specs.Dhcpv4Tables
pub use Rattle.dhcp_wire.specs.Dhcpv4Writer
pub use Rattle.dns_wire.specs.DnsTables
pub use Rattle.dns_wire.specs.DnsPacket
pub use Rattle.dns_wire.specs.DnsName
pub use Rattle.dns_wire.specs.DnsNameWalk
pub use Rattle.dns_wire.specs.DnsNameAhead
pub use Rattle.dns_wire.specs.DnsPart
pub use Rattle.dns_wire.specs.DnsQuestion
pub use Rattle.dns_wire.specs.DnsRepr
pub use Rattle.dns_wire.specs.DnsRecord
pub use Rattle.wirebase.specs.declared.capabilities.Checksum as ChecksumType
pub use Rattle.wirebase.specs.declared.capabilities.ChecksumCapabilities as ChecksumCapabilitiesType
pub use Rattle.wirebase.specs.declared.duration.Duration as DurationType
pub use Rattle.wirebase.specs.declared.error.Error as ErrorType
pub use Rattle.wirebase.specs.declared.ethernet.EthernetAddress as EthernetAddressType
pub use Rattle.wirebase.specs.declared.ethernet.RawHardwareAddress as RawHardwareAddressType
pub use Rattle.wirebase.specs.declared.hardware.Hardware as HardwareType
pub use Rattle.wirebase.specs.declared.ip.IpProtocol as IpProtocolType
pub use Rattle.wirebase.specs.declared.ipv4.Ipv4Address as Ipv4AddressType
pub use Rattle.wirebase.specs.declared.ipv4.Ipv4Repr as Ipv4ReprType
pub use Rattle.wirebase.specs.declared.ipv6.address.Ipv6Address as Ipv6AddressType
pub use Rattle.wirebase.specs.declared.ipv6.Ipv6Repr as Ipv6ReprType
pub use Rattle.icmp4_wire.specs.declared.icmpv4.repr.Repr as Icmpv4ReprType
pub use Rattle.icmp4_wire.specs.declared.icmpv4.tables.DstUnreachable as Icmpv4DstUnreachableType
pub use Rattle.icmp4_wire.specs.declared.icmpv4.tables.TimeExceeded as Icmpv4TimeExceededType
pub use Rattle.icmp4_wire.specs.declared.igmp.repr.IgmpVersion as IgmpVersionType
pub use Rattle.icmp4_wire.specs.declared.igmp.repr.Repr as IgmpReprType
pub use Rattle.icmp6_wire.specs.declared.icmpv6.repr.Repr as Icmpv6ReprType
pub use Rattle.icmp6_wire.specs.declared.icmpv6.tables.Message as Icmpv6MessageType
pub use Rattle.icmp6_wire.specs.declared.icmpv6.tables.DstUnreachable as Icmpv6DstUnreachableType
pub use Rattle.icmp6_wire.specs.declared.icmpv6.tables.ParamProblem as Icmpv6ParamProblemType
pub use Rattle.icmp6_wire.specs.declared.icmpv6.tables.TimeExceeded as Icmpv6TimeExceededType
pub use Rattle.icmp6_wire.specs.declared.mld.repr.Repr as MldReprType
pub use Rattle.icmp6_wire.specs.declared.ndisc.repr.Repr as NdiscReprType
pub use Rattle.icmp6_wire.specs.declared.ndisc.flags.NeighborFlags as NdiscNeighborFlagsType
pub use Rattle.icmp6_wire.specs.declared.ndisc.flags.RouterFlags as NdiscRouterFlagsType
pub use Rattle.icmp6_wire.specs.declared.mld.record.AddressRecordRepr as MldAddressRecordReprType
pub use Rattle.icmp6_wire.specs.declared.mld.tables.RecordType as MldRecordTypeType
pub use Rattle.dhcp_wire.specs.declared.dhcpv4.repr.Repr as Dhcpv4ReprType
pub use Rattle.dhcp_wire.specs.declared.dhcpv4.tables.MessageType as Dhcpv4MessageTypeType
pub use Rattle.dns_wire.specs.declared.dns.tables.Opcode as DnsOpcodeType
pub use Rattle.dns_wire.specs.declared.dns.tables.Rcode as DnsRcodeType
pub use Rattle.dns_wire.specs.declared.dns.tables.Type as DnsTypeType
pub use Rattle.dns_wire.specs.declared.dns.tables.Flags as DnsFlagsType
pub use Rattle.dns_wire.specs.declared.dns.repr.Repr as DnsReprType
pub use Rattle.opt_wire.specs.declared.ipv6option.tables.RouterAlert as RouterAlertType
pub use Rattle.opt_wire.specs.declared.ndiscoption.repr.PrefixInformation as NdiscPrefixInformationType
pub use Rattle.opt_wire.specs.declared.ndiscoption.repr.RedirectedHeader as NdiscRedirectedHeaderType
pub use Rattle.opt_wire.specs.declared.ndiscoption.repr.Repr as NdiscOptionReprType
pub use Rattle.opt_wire.specs.declared.ndiscoption.tables.PrefixInfoFlags as NdiscPrefixInfoFlagsType
pub use Rattle.opt_wire.specs.declared.ndiscoption.tables.Type as NdiscOptionTypeType
pub use Rattle.wirebase.specs.declared.ipv4.Ipv4Packet as Ipv4PacketType
pub use Rattle.wirebase.specs.declared.ipv6.Ipv6Packet as Ipv6PacketType
pub use Rattle.opt_wire.specs.declared.ipv6ext_header.Header as Ipv6ExtHeaderType
pub use Rattle.opt_wire.specs.declared.ipv6ext_header.Repr as Ipv6ExtHeaderReprType
pub use Rattle.opt_wire.specs.declared.ipv6hbh.Header as Ipv6HbhHeaderType
pub use Rattle.opt_wire.specs.declared.ipv6hbh.Repr as Ipv6HbhReprType
pub use Rattle.opt_wire.specs.declared.ipv6option.Ipv6Option as Ipv6OptionType
pub use Rattle.opt_wire.specs.declared.ipv6option.Repr as Ipv6OptionReprType
pub use Rattle.opt_wire.specs.declared.ipv6option.tables.FailureType as Ipv6OptionFailureTypeType
pub use Rattle.opt_wire.specs.declared.ipv6option.tables.Type as Ipv6OptionTypeType
pub use Rattle.opt_wire.specs.declared.ndiscoption.NdiscOption as NdiscOptionType
pub use Rattle.icmp4_wire.specs.declared.icmpv4.packet.Packet as Icmpv4PacketType
pub use Rattle.icmp4_wire.specs.declared.icmpv4.tables.Message as Icmpv4MessageType
pub use Rattle.icmp4_wire.specs.declared.icmpv4.tables.ParamProblem as Icmpv4ParamProblemType
pub use Rattle.icmp4_wire.specs.declared.icmpv4.tables.Redirect as Icmpv4RedirectType
pub use Rattle.icmp4_wire.specs.declared.igmp.packet.Packet as IgmpPacketType
pub use Rattle.icmp4_wire.specs.declared.igmp.tables.Message as IgmpMessageType
pub use Rattle.icmp6_wire.specs.declared.icmpv6.packet.Packet as Icmpv6PacketType
pub use Rattle.icmp6_wire.specs.declared.mld.record.AddressRecord as MldAddressRecordType
pub use Rattle.dhcp_wire.specs.declared.dhcpv4.options.DhcpOption as DhcpOptionType
pub use Rattle.dhcp_wire.specs.declared.dhcpv4.packet.Packet as Dhcpv4PacketType
pub use Rattle.dhcp_wire.specs.declared.dhcpv4.tables.Flags as Dhcpv4FlagsType
pub use Rattle.dhcp_wire.specs.declared.dhcpv4.tables.OpCode as Dhcpv4OpCodeType
pub use Rattle.dns_wire.specs.declared.dns.packet.Packet as DnsPacketType
pub use Rattle.dns_wire.specs.declared.dns.question.Question as DnsQuestionType
pub use Rattle.dns_wire.specs.declared.dns.record.Record as DnsRecordType
pub use Rattle.dns_wire.specs.declared.dns.record.RecordData as DnsRecordDataType
