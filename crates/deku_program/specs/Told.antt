-- The texts of errors.
use Rattle.std.specs.Prelude.{ℕ, ◌+◌, ◌/◌, List, ◌++◌, flat_map, decimal, codes}
use Rattle.std.specs.Borrow.{Bor}
use Rattle.std.specs.declared.io.ErrorKind.{ErrorKind}
use Rattle.std.specs.declared.io.ErrorKind.TheVariants.{NotFound, PermissionDenied, ConnectionRefused, ConnectionReset, HostUnreachable, NetworkUnreachable, ConnectionAborted, NotConnected, AddrInUse, AddrNotAvailable, NetworkDown, BrokenPipe, AlreadyExists, WouldBlock, NotADirectory, IsADirectory, DirectoryNotEmpty, ReadOnlyFilesystem, FilesystemLoop, StaleNetworkFileHandle, InvalidInput, InvalidData, TimedOut, WriteZero, StorageFull, NotSeekable, QuotaExceeded, FileTooLarge, ResourceBusy, ExecutableFileBusy, Deadlock, CrossesDevices, TooManyLinks, InvalidFilename, ArgumentListTooLong, Interrupted, Unsupported, UnexpectedEof, OutOfMemory, InProgress, Other, Uncategorized}
use Rattle.deku_bits.specs.declared.error.DekuError.{DekuError}
use Rattle.deku_bits.specs.declared.error.DekuError.TheVariants.{Incomplete, Parse, InvalidParam, Assertion, IdVariantNotFound, Io}
use Rattle.deku_program.specs.Texts.{line}

-- Texts, one after the other.
abbrev pub joined_text : List (Bor (List ℕ)) → List ℕ
joined_text parts = flat_map (λ part. part.now) parts

-- The name of a kind of io error.
abbrev pub io_kind_name : ErrorKind → List ℕ
io_kind_name NotFound = codes "NotFound"
io_kind_name PermissionDenied = codes "PermissionDenied"
io_kind_name ConnectionRefused = codes "ConnectionRefused"
io_kind_name ConnectionReset = codes "ConnectionReset"
io_kind_name HostUnreachable = codes "HostUnreachable"
io_kind_name NetworkUnreachable = codes "NetworkUnreachable"
io_kind_name ConnectionAborted = codes "ConnectionAborted"
io_kind_name NotConnected = codes "NotConnected"
io_kind_name AddrInUse = codes "AddrInUse"
io_kind_name AddrNotAvailable = codes "AddrNotAvailable"
io_kind_name NetworkDown = codes "NetworkDown"
io_kind_name BrokenPipe = codes "BrokenPipe"
io_kind_name AlreadyExists = codes "AlreadyExists"
io_kind_name WouldBlock = codes "WouldBlock"
io_kind_name NotADirectory = codes "NotADirectory"
io_kind_name IsADirectory = codes "IsADirectory"
io_kind_name DirectoryNotEmpty = codes "DirectoryNotEmpty"
io_kind_name ReadOnlyFilesystem = codes "ReadOnlyFilesystem"
io_kind_name FilesystemLoop = codes "FilesystemLoop"
io_kind_name StaleNetworkFileHandle = codes "StaleNetworkFileHandle"
io_kind_name InvalidInput = codes "InvalidInput"
io_kind_name InvalidData = codes "InvalidData"
io_kind_name TimedOut = codes "TimedOut"
io_kind_name WriteZero = codes "WriteZero"
io_kind_name StorageFull = codes "StorageFull"
io_kind_name NotSeekable = codes "NotSeekable"
io_kind_name QuotaExceeded = codes "QuotaExceeded"
io_kind_name FileTooLarge = codes "FileTooLarge"
io_kind_name ResourceBusy = codes "ResourceBusy"
io_kind_name ExecutableFileBusy = codes "ExecutableFileBusy"
io_kind_name Deadlock = codes "Deadlock"
io_kind_name CrossesDevices = codes "CrossesDevices"
io_kind_name TooManyLinks = codes "TooManyLinks"
io_kind_name InvalidFilename = codes "InvalidFilename"
io_kind_name ArgumentListTooLong = codes "ArgumentListTooLong"
io_kind_name Interrupted = codes "Interrupted"
io_kind_name Unsupported = codes "Unsupported"
io_kind_name UnexpectedEof = codes "UnexpectedEof"
io_kind_name OutOfMemory = codes "OutOfMemory"
io_kind_name InProgress = codes "InProgress"
io_kind_name Other = codes "Other"
io_kind_name Uncategorized = codes "Uncategorized"

-- The text of an error.
abbrev pub fault_text : DekuError → List ℕ
fault_text (Incomplete need) = codes "Not enough data, need " ++ (decimal need.bits ++ (codes " bits (or " ++ (decimal ((need.bits + 7) / 8) ++ codes " bytes)")))
fault_text (Parse text) = codes "Parse error: " ++ text.now
fault_text (InvalidParam text) = codes "Invalid param error: " ++ text.now
fault_text (Assertion text) = text.now
fault_text IdVariantNotFound = codes "Could not resolve `id` for variant"
fault_text (Io kind) = codes "io errorr: " ++ io_kind_name kind

-- The line of an error, with more after its text.
abbrev pub fault_line : DekuError → List ℕ → List ℕ
fault_line fault more = line (codes "error: " ++ (fault_text fault ++ more))
