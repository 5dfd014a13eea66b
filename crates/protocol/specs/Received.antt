-- What every received message is asked first.
use Rattle.std.specs.Prelude.{Bool, true, false}
use Rattle.message.specs.declared.MessageType.{MessageType}

abbrev pub is_init : MessageType → Bool
is_init MessageType.Notification = false
is_init MessageType.Initialization = true
is_init MessageType.KeepAlive = false
is_init MessageType.Address = false
is_init MessageType.AddressWithdraw = false
is_init MessageType.Mapping = false
is_init MessageType.Request = false
is_init MessageType.Withdraw = false
is_init MessageType.Release = false
is_init MessageType.Abort = false
is_init MessageType.Other = false
