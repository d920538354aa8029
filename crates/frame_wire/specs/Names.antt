-- The names of link types, protocols and EtherTypes, each with its number.
use Rattle.std.specs.Prelude.{ℕ, ◌==◌, if◌then◌else◌, List, [], ◌∷◌, Option, None, Some, codes}

-- names, each with its number
abbrev pub Rows : Type 0
Rows = List (List ℕ × ℕ)

-- the name of a number in such rows
abbrev pub name_in : Rows → ℕ → Option (List ℕ)
name_in [] n = None
name_in (row ∷ rest) n = if n == row.1 then Some row.0 else name_in rest n

-- the registry of link types of pcap and pcapng, without LINKTYPE_
unfoldable pub link_names : Rows
link_names =
    (codes "NULL", 0) ∷ (codes "ETHERNET", 1) ∷ (codes "EXP_ETHERNET", 2) ∷ (codes "AX25", 3) ∷ (codes "PRONET", 4)
    ∷ (codes "CHAOS", 5) ∷ (codes "IEEE802_5", 6) ∷ (codes "ARCNET_BSD", 7) ∷ (codes "SLIP", 8) ∷ (codes "PPP", 9)
    ∷ (codes "FDDI", 10) ∷ (codes "PPP_HDLC", 50) ∷ (codes "PPP_ETHER", 51) ∷ (codes "SYMANTEC_FIREWALL", 99)
    ∷ (codes "ATM_RFC1483", 100) ∷ (codes "RAW", 101) ∷ (codes "C_HDLC", 104) ∷ (codes "IEEE802_11", 105)
    ∷ (codes "ATM_CLIP", 106) ∷ (codes "FRELAY", 107) ∷ (codes "LOOP", 108) ∷ (codes "ENC", 109)
    ∷ (codes "LINUX_SLL", 113) ∷ (codes "LTALK", 114) ∷ (codes "PFLOG", 117) ∷ (codes "IEEE802_11_PRISM", 119)
    ∷ (codes "IP_OVER_FC", 122) ∷ (codes "SUNATM", 123) ∷ (codes "IEEE802_11_RADIOTAP", 127)
    ∷ (codes "ARCNET_LINUX", 129) ∷ (codes "JUNIPER_MLPPP", 130) ∷ (codes "JUNIPER_MLFR", 131)
    ∷ (codes "JUNIPER_ES", 132) ∷ (codes "JUNIPER_GGSN", 133) ∷ (codes "JUNIPER_MFR", 134)
    ∷ (codes "JUNIPER_ATM2", 135) ∷ (codes "JUNIPER_SERVICES", 136) ∷ (codes "JUNIPER_ATM1", 137)
    ∷ (codes "APPLE_IP_OVER_IEEE1394", 138) ∷ (codes "MTP2_WITH_PHDR", 139) ∷ (codes "MTP2", 140)
    ∷ (codes "MTP3", 141) ∷ (codes "SCCP", 142) ∷ (codes "DOCSIS", 143) ∷ (codes "LINUX_IRDA", 144)
    ∷ (codes "USER0", 147) ∷ (codes "USER1", 148) ∷ (codes "USER2", 149) ∷ (codes "USER3", 150) ∷ (codes "USER4", 151)
    ∷ (codes "USER5", 152) ∷ (codes "USER6", 153) ∷ (codes "USER7", 154) ∷ (codes "USER8", 155) ∷ (codes "USER9", 156)
    ∷ (codes "USER10", 157) ∷ (codes "USER11", 158) ∷ (codes "USER12", 159) ∷ (codes "USER13", 160)
    ∷ (codes "USER14", 161) ∷ (codes "USER15", 162) ∷ (codes "IEEE802_11_AVS", 163) ∷ (codes "JUNIPER_MONITOR", 164)
    ∷ (codes "BACNET_MS_TP", 165) ∷ (codes "PPP_PPPD", 166) ∷ (codes "JUNIPER_PPPOE", 167)
    ∷ (codes "JUNIPER_PPPOE_ATM", 168) ∷ (codes "GPRS_LLC", 169) ∷ (codes "GPF_T", 170) ∷ (codes "GPF_F", 171)
    ∷ (codes "JUNIPER_PIC_PEER", 174) ∷ (codes "ERF_ETH", 175) ∷ (codes "ERF_POS", 176) ∷ (codes "LINUX_LAPD", 177)
    ∷ (codes "JUNIPER_ETHER", 178) ∷ (codes "JUNIPER_PPP", 179) ∷ (codes "JUNIPER_FRELAY", 180)
    ∷ (codes "JUNIPER_CHDLC", 181) ∷ (codes "MFR", 182) ∷ (codes "JUNIPER_VP", 183) ∷ (codes "A429", 184)
    ∷ (codes "A653_ICM", 185) ∷ (codes "USB_FREEBSD", 186) ∷ (codes "BLUETOOTH_HCI_H4", 187)
    ∷ (codes "IEEE802_16_MAC_CPS", 188) ∷ (codes "USB_LINUX", 189) ∷ (codes "CAN20B", 190)
    ∷ (codes "IEEE802_15_4_LINUX", 191) ∷ (codes "PPI", 192) ∷ (codes "IEEE802_16_MAC_CPS_RADIO", 193)
    ∷ (codes "JUNIPER_ISM", 194) ∷ (codes "IEEE802_15_4_WITHFCS", 195) ∷ (codes "SITA", 196) ∷ (codes "ERF", 197)
    ∷ (codes "RAIF1", 198) ∷ (codes "IPMB_KONTRON", 199) ∷ (codes "JUNIPER_ST", 200)
    ∷ (codes "BLUETOOTH_HCI_H4_WITH_PHDR", 201) ∷ (codes "AX25_KISS", 202) ∷ (codes "LAPD", 203)
    ∷ (codes "PPP_WITH_DIR", 204) ∷ (codes "C_HDLC_WITH_DIR", 205) ∷ (codes "FRELAY_WITH_DIR", 206)
    ∷ (codes "LAPB_WITH_DIR", 207) ∷ (codes "I2C_LINUX", 209) ∷ (codes "FLEXRAY", 210) ∷ (codes "MOST", 211)
    ∷ (codes "LIN", 212) ∷ (codes "IEEE802_15_4_NONASK_PHY", 215) ∷ (codes "LINUX_EVDEV", 216)
    ∷ (codes "GSMTAP_UM", 217) ∷ (codes "GSMTAP_ABIS", 218) ∷ (codes "MPLS", 219) ∷ (codes "USB_LINUX_MMAPPED", 220)
    ∷ (codes "DECT", 221) ∷ (codes "AOS", 222) ∷ (codes "WIHART", 223) ∷ (codes "FC_2", 224)
    ∷ (codes "FC_2_WITH_FRAME_DELIMS", 225) ∷ (codes "IPNET", 226) ∷ (codes "CAN_SOCKETCAN", 227)
    ∷ (codes "IPV4", 228) ∷ (codes "IPV6", 229) ∷ (codes "IEEE802_15_4_NOFCS", 230) ∷ (codes "DBUS", 231)
    ∷ (codes "JUNIPER_VS", 232) ∷ (codes "JUNIPER_SRX_E2E", 233) ∷ (codes "JUNIPER_FIBRECHANNEL", 234)
    ∷ (codes "DVB_CI", 235) ∷ (codes "MUX27010", 236) ∷ (codes "STANAG_5066_D_PDU", 237)
    ∷ (codes "JUNIPER_ATM_CEMIC", 238) ∷ (codes "NFLOG", 239) ∷ (codes "NETANALYZER", 240)
    ∷ (codes "NETANALYZER_TRANSPARENT", 241) ∷ (codes "IPOIB", 242) ∷ (codes "MPEG_2_TS", 243) ∷ (codes "NG40", 244)
    ∷ (codes "NFC_LLCP", 245) ∷ (codes "PFSYNC", 246) ∷ (codes "INFINIBAND", 247) ∷ (codes "SCTP", 248)
    ∷ (codes "USBPCAP", 249) ∷ (codes "RTAC_SERIAL", 250) ∷ (codes "BLUETOOTH_LE_LL", 251)
    ∷ (codes "WIRESHARK_UPPER_PDU", 252) ∷ (codes "NETLINK", 253) ∷ (codes "BLUETOOTH_LINUX_MONITOR", 254)
    ∷ (codes "BLUETOOTH_BREDR_BB", 255) ∷ (codes "BLUETOOTH_LE_LL_WITH_PHDR", 256) ∷ (codes "PROFIBUS_DL", 257)
    ∷ (codes "PKTAP", 258) ∷ (codes "EPON", 259) ∷ (codes "IPMI_HPM_2", 260) ∷ (codes "ZWAVE_R1_R2", 261)
    ∷ (codes "ZWAVE_R3", 262) ∷ (codes "WATTSTOPPER_DLM", 263) ∷ (codes "ISO_14443", 264) ∷ (codes "RDS", 265)
    ∷ (codes "USB_DARWIN", 266) ∷ (codes "OPENFLOW", 267) ∷ (codes "SDLC", 268) ∷ (codes "TI_LLN_SNIFFER", 269)
    ∷ (codes "LORATAP", 270) ∷ (codes "VSOCK", 271) ∷ (codes "NORDIC_BLE", 272) ∷ (codes "DOCSIS31_XRA31", 273)
    ∷ (codes "ETHERNET_MPACKET", 274) ∷ (codes "DISPLAYPORT_AUX", 275) ∷ (codes "LINUX_SLL2", 276)
    ∷ (codes "SERCOS_MONITOR", 277) ∷ (codes "OPENVIZSLA", 278) ∷ (codes "EBHSCR", 279) ∷ (codes "VPP_DISPATCH", 280)
    ∷ (codes "DSA_TAG_BRCM", 281) ∷ (codes "DSA_TAG_BRCM_PREPEND", 282) ∷ (codes "IEEE802_15_4_TAP", 283)
    ∷ (codes "DSA_TAG_DSA", 284) ∷ (codes "DSA_TAG_EDSA", 285) ∷ (codes "ELEE", 286) ∷ (codes "Z_WAVE_SERIAL", 287)
    ∷ (codes "USB_2_0", 288) ∷ (codes "ATSC_ALP", 289) ∷ (codes "ETW", 290) ∷ []

-- IANA's registry of protocol numbers, by the names that Unix has in its file of protocols, and else by the registry's
-- keywords in lower case
unfoldable pub protocol_names : Rows
protocol_names =
    (codes "hopopt", 0) ∷ (codes "icmp", 1) ∷ (codes "igmp", 2) ∷ (codes "ggp", 3) ∷ (codes "ipencap", 4)
    ∷ (codes "st", 5) ∷ (codes "tcp", 6) ∷ (codes "cbt", 7) ∷ (codes "egp", 8) ∷ (codes "igp", 9)
    ∷ (codes "bbn-rcc-mon", 10) ∷ (codes "nvp-ii", 11) ∷ (codes "pup", 12) ∷ (codes "argus", 13) ∷ (codes "emcon", 14)
    ∷ (codes "xnet", 15) ∷ (codes "chaos", 16) ∷ (codes "udp", 17) ∷ (codes "mux", 18) ∷ (codes "hmp", 20)
    ∷ (codes "xns-idp", 22) ∷ (codes "rdp", 27) ∷ (codes "irtp", 28) ∷ (codes "iso-tp4", 29) ∷ (codes "netblt", 30)
    ∷ (codes "dccp", 33) ∷ (codes "3pc", 34) ∷ (codes "idpr", 35) ∷ (codes "xtp", 36) ∷ (codes "ddp", 37)
    ∷ (codes "idpr-cmtp", 38) ∷ (codes "ipv6", 41) ∷ (codes "sdrp", 42) ∷ (codes "ipv6-route", 43)
    ∷ (codes "ipv6-frag", 44) ∷ (codes "idrp", 45) ∷ (codes "rsvp", 46) ∷ (codes "gre", 47) ∷ (codes "dsr", 48)
    ∷ (codes "bna", 49) ∷ (codes "esp", 50) ∷ (codes "ah", 51) ∷ (codes "swipe", 53) ∷ (codes "narp", 54)
    ∷ (codes "skip", 57) ∷ (codes "ipv6-icmp", 58) ∷ (codes "ipv6-nonxt", 59) ∷ (codes "ipv6-opts", 60)
    ∷ (codes "iso-ip", 80) ∷ (codes "vmtp", 81) ∷ (codes "vines", 83) ∷ (codes "eigrp", 88) ∷ (codes "ospf", 89)
    ∷ (codes "mtp", 92) ∷ (codes "ax.25", 93) ∷ (codes "ipip", 94) ∷ (codes "etherip", 97) ∷ (codes "encap", 98)
    ∷ (codes "pnni", 102) ∷ (codes "pim", 103) ∷ (codes "aris", 104) ∷ (codes "scps", 105) ∷ (codes "qnx", 106)
    ∷ (codes "ipcomp", 108) ∷ (codes "vrrp", 112) ∷ (codes "pgm", 113) ∷ (codes "l2tp", 115) ∷ (codes "stp", 118)
    ∷ (codes "srp", 119) ∷ (codes "smp", 121) ∷ (codes "sm", 122) ∷ (codes "ptp", 123) ∷ (codes "isis", 124)
    ∷ (codes "crtp", 126) ∷ (codes "crudp", 127) ∷ (codes "sctp", 132) ∷ (codes "fc", 133)
    ∷ (codes "rsvp-e2e-ignore", 134) ∷ (codes "mobility-header", 135) ∷ (codes "udplite", 136)
    ∷ (codes "mpls-in-ip", 137) ∷ (codes "manet", 138) ∷ (codes "hip", 139) ∷ (codes "shim6", 140)
    ∷ (codes "wesp", 141) ∷ (codes "rohc", 142) ∷ (codes "ethernet", 143) ∷ (codes "aggfrag", 144)
    ∷ (codes "nsh", 145) ∷ []

-- IEEE's registry of EtherTypes, by the protocols that they are for
unfoldable pub ether_type_names : Rows
ether_type_names =
    (codes "xns", 0x0600) ∷ (codes "ipv4", 0x0800) ∷ (codes "x25", 0x0805) ∷ (codes "arp", 0x0806)
    ∷ (codes "wake-on-lan", 0x0842) ∷ (codes "cdp", 0x2000) ∷ (codes "msrp", 0x22ea) ∷ (codes "avtp", 0x22f0)
    ∷ (codes "trill", 0x22f3) ∷ (codes "isis", 0x22f4) ∷ (codes "mop-dump", 0x6001) ∷ (codes "mop-console", 0x6002)
    ∷ (codes "decnet", 0x6003) ∷ (codes "lat", 0x6004) ∷ (codes "teb", 0x6558) ∷ (codes "rarp", 0x8035)
    ∷ (codes "appletalk", 0x809b) ∷ (codes "aarp", 0x80f3) ∷ (codes "vlan", 0x8100) ∷ (codes "ipx", 0x8137)
    ∷ (codes "ipv6", 0x86dd) ∷ (codes "mac-control", 0x8808) ∷ (codes "slow-protocols", 0x8809)
    ∷ (codes "ppp", 0x880b) ∷ (codes "cobranet", 0x8819) ∷ (codes "mpls", 0x8847) ∷ (codes "mpls-multicast", 0x8848)
    ∷ (codes "mpoa", 0x884c) ∷ (codes "pppoe-discovery", 0x8863) ∷ (codes "pppoe-session", 0x8864)
    ∷ (codes "jumbo-llc", 0x8870) ∷ (codes "homeplug", 0x887b) ∷ (codes "eapol", 0x888e) ∷ (codes "profinet", 0x8892)
    ∷ (codes "realtek", 0x8899) ∷ (codes "aoe", 0x88a2) ∷ (codes "ethercat", 0x88a4) ∷ (codes "service-vlan", 0x88a8)
    ∷ (codes "powerlink", 0x88ab) ∷ (codes "oui-extended", 0x88b7) ∷ (codes "goose", 0x88b8) ∷ (codes "gse", 0x88b9)
    ∷ (codes "sampled-values", 0x88ba) ∷ (codes "preauthentication", 0x88c7) ∷ (codes "tipc", 0x88ca)
    ∷ (codes "lldp", 0x88cc) ∷ (codes "sercos", 0x88cd) ∷ (codes "lltd", 0x88d9) ∷ (codes "wsmp", 0x88dc)
    ∷ (codes "homeplug-av", 0x88e1) ∷ (codes "mrp", 0x88e3) ∷ (codes "macsec", 0x88e5) ∷ (codes "pbb", 0x88e7)
    ∷ (codes "e-lmi", 0x88ee) ∷ (codes "mvrp", 0x88f5) ∷ (codes "mmrp", 0x88f6) ∷ (codes "ptp", 0x88f7)
    ∷ (codes "nc-si", 0x88f8) ∷ (codes "prp", 0x88fb) ∷ (codes "cfm", 0x8902) ∷ (codes "fcoe", 0x8906)
    ∷ (codes "fip", 0x8914) ∷ (codes "roce", 0x8915) ∷ (codes "ttethernet", 0x891d) ∷ (codes "vn-tag", 0x8926)
    ∷ (codes "hsr", 0x892f) ∷ (codes "ieee1905", 0x893a) ∷ (codes "e-tag", 0x893f) ∷ (codes "geonetworking", 0x8947)
    ∷ (codes "nsh", 0x894f) ∷ (codes "loopback", 0x9000) ∷ (codes "6lowpan", 0xa0ed) ∷ (codes "ecpri", 0xaefe)
    ∷ (codes "frer", 0xf1c1) ∷ []
