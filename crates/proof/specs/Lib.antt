pub mod StateHeld
