-- What the command tells of itself.
use Rattle.std.specs.Prelude.{ℕ, List, ◌++◌, codes}

abbrev pub usage_text : List ℕ
usage_text = codes "usage: etcd_proxy replay [--generate N] or audit or store ADDRESS or grpc-proxy start OPTIONS\n"

abbrev pub help_text : List ℕ
help_text =
    codes "etcd_proxy serves clients of an etcd cluster, and replays scripted schedules of such proxies over a small store.\n\n"
    ++ codes "usage: etcd_proxy replay < SCRIPT\n"
    ++ codes "       etcd_proxy replay --generate N\n"
    ++ codes "       etcd_proxy audit < TRANSCRIPT\n"
    ++ codes "       etcd_proxy store ADDRESS\n"
    ++ codes "       etcd_proxy grpc-proxy start OPTIONS\n\n"
    ++ codes "  replay             reads a script from the input and writes its transcript to the output\n"
    ++ codes "  --generate N       replays the script that is generated from N, 1 to 20000, and writes counts of its transcript\n"
    ++ codes "  audit              reads a transcript from the input, says whether it keeps the rules of one, and writes its counts\n"
    ++ codes "  --explain          behind audit: explains the line that is refused\n"
    ++ codes "  store ADDRESS      serves a store of one member with nothing in it, at host:port; nothing is kept at its end\n"
    ++ codes "  grpc-proxy start   serves; with --help it shows its options\n"
    ++ codes "  --help             shows this\n"
    ++ codes "  --version          shows the version\n"

abbrev pub version_text : List ℕ
version_text = codes "etcd_proxy 0.1.0\n"
